mod Places
mod Parting
mod Narrowing
mod Settling
