pub mod Around
pub mod Kept
pub mod Mapped
pub mod Payloads
pub mod StatementWeights
pub mod StatementsAround
pub mod Weights
