-- Why the loop finder and the solver answer what is asked for. A form of edges above wants PlaceLaws.
pub mod PlaceLaws
pub mod SumLaws
