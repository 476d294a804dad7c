pub mod CallLaws
pub mod PlaceLaws
pub mod StepLaws
pub mod StrokeLaws
