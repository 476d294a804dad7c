-- Why it holds, by subject.
pub mod TreeLaws
pub mod GrowLaws
pub mod PushLaws
