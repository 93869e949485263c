pub mod PieceFacts
pub mod StandFacts
