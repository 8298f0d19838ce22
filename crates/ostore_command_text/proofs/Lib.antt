pub mod CommandTaken
pub mod WordAgain
pub mod CommandAgain
