pub mod NumberLaws
pub mod ImageLaws
