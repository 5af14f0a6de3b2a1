pub mod Chart
pub mod Entering
pub mod Heads
pub mod Words
