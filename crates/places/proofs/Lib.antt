-- Laws of reading and laying an area's places, and what crates above cite of them.
pub mod ReadLaws
pub mod LayLaws
pub mod PlaceLaws
