-- Laws of rings, and of how they are marked.
pub mod RingLaws
pub mod PlaceLaws
pub mod MarkLaws
