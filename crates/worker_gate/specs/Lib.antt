pub mod After
pub mod Next
