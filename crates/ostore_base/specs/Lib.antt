-- What contracts of public calls rest on; `inside` only ties private code.
pub mod Limits
pub mod Faults
pub mod Streams
pub mod Disk
pub mod Images
pub mod Memory
pub mod MemoryDisk
pub mod CrashImages
pub mod inside
