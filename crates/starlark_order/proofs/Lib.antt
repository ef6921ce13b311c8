pub mod Firm
pub mod First
pub mod Tokens
pub mod Expressions
pub mod Statements
pub mod Outlines
pub mod Early
pub mod EarlyExpressions
pub mod EarlyStatements
pub mod Alike
pub mod Staying
mod Examples
