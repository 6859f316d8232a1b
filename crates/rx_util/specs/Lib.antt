pub mod PoolMachine
pub mod Stack
pub mod Template
pub mod Interpolation
pub mod Lock
pub mod Held
