-- Laws by subject. A layer above wants ShortLaws, PutLaws and BoundLaws.
pub mod ShortLaws
pub mod PutLaws
pub mod BoundLaws
