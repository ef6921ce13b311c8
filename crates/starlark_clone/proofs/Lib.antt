pub mod Made
pub mod MadeStatements
pub mod Moved
pub mod Stays
