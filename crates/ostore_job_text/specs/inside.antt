pub mod WordLoops
pub mod LinesSpelled
