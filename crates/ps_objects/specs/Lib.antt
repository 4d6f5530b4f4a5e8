pub mod Access
pub mod Cell
pub mod Hash
pub mod Key
pub mod Name
pub mod Object
pub mod Operands
pub mod Order
