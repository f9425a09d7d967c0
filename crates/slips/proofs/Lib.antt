pub mod Slipping
