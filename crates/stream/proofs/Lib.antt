-- Laws of bytes fed, of line feeds, of bytes held, of text in front and of the lines of the output; the theorems and the case that specs/
-- states.
pub mod Long
pub mod Fed
pub mod Holding
pub mod Runs
pub mod Answers
pub mod Feeding
pub mod Front
pub mod Theorems
pub mod Shown
pub mod Agreement
pub mod WayOn
pub mod cases
pub mod Witnesses
pub mod Claims
