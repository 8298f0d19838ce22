pub mod RangeLaws
pub mod PageShape
