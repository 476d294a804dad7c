-- Why what is laid, found and handed out is the best x of a chart. A layer above wants CallLaws.
pub mod CostLaws
pub mod LayLaws
pub mod OrderLaws
pub mod SpaceLaws
pub mod CallLaws
pub mod StepLaws
