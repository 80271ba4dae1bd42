pub mod Layers
pub mod Piles
pub mod Refusals
pub mod LayerSound
