pub mod Characters
pub mod Numbers
pub mod Significands
pub mod Strings
pub mod Limited
pub mod Token
