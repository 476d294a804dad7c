-- Laws by subject. A layer above wants TableLaws and BufferLaws, CallLaws for what an answer tells, and FittedLaws to hand out bytes of its own.
pub mod StandsLaws
pub mod BackLaws
pub mod EachLaws
pub mod StepLaws
pub mod EdgeLaws
pub mod TableLaws
pub mod StarredLaws
mod PageLaws
pub mod FittedLaws
pub mod CallLaws
pub mod BufferLaws
