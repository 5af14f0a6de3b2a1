pub mod Benching
