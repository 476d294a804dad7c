-- What each turn of the loops meets. A layer above wants OwnerLaws and RefusalLaws.
pub mod PrintLaws
pub mod LayLaws
pub mod OwnerLaws
pub mod RefusalLaws
