pub mod Small
pub mod SmallLaws
pub mod EachOnce
pub mod EachOnceProof
pub mod Listing
pub mod ListingLaws
pub mod Accepted
pub mod MaskLaws
