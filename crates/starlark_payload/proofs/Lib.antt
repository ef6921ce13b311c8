pub mod Answering
pub mod FStrings
pub mod Listed
pub mod Loops
pub mod Opening
pub mod Parts
pub mod StatementOpening
