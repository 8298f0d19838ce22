use Rattle.ostore_base.proofs.RecordLemmas.{synced_images, synced_time}
use Rattle.ostore_base.proofs.memory.disk.MemDiskDisk.sync.Goals as goal

pub returns-clause-images : goal.returns-clause-images
returns-clause-images c = synced_images _ _ _ c.begin_call.ensures.kept c.note_sync.ensures.recorded

pub returns-clause-time : goal.returns-clause-time
returns-clause-time c = synced_time _ _ _ c.begin_call.ensures.kept c.note_sync.ensures.recorded
