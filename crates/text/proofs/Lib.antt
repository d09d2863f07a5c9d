pub mod DecimalCases
pub mod Laws
pub mod Words
pub mod Tens
pub mod Pieces
pub mod NameTests
