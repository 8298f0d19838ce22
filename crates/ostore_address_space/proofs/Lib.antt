pub mod FrameLaws
pub mod PairLaws
