pub mod Leapt
