pub mod Declared
pub mod DeclaredWords
pub mod DeclaredKinds
pub mod DeclaredAgain
pub mod DeclaredLaws
pub mod PrintLaws
