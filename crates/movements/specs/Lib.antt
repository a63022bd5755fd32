pub mod Movements
