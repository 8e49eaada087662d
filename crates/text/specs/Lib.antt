pub mod Printed
pub mod Words
pub mod Numbers
pub mod Answers
pub mod Lines
