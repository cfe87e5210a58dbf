pub mod Calls
pub mod Listings
pub mod Packing
pub mod Pictures
