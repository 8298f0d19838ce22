pub mod GivesAt
