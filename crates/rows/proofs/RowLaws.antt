-- What a row in a lent buffer is in memory, for walks of the MIR by hand: `Row` of src/types.rt.
use denote.RattleType.{RattleType}
use denote.Builtin.{u16}

abbrev pub Row : RattleType
Row = u16
