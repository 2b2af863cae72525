pub mod Depths
pub mod Filled
pub mod Following
pub mod Listing
pub mod Trails
