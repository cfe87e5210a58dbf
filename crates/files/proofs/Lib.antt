mod Booked
mod Bytes
mod Fitting
mod Loaded
mod Opening
mod ReadBack
