-- Why it holds, by subject.
pub mod SumLaws
pub mod FlowLaws
pub mod LoadLaws
pub mod ShiftLaws
