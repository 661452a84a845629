pub mod Disk
pub mod Small
pub mod Within
