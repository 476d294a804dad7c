-- What a call leaves of slices that it takes in a struct: which slice stands in a field, and how long it is, the caller knows only from these.
use Rattle.std.specs.Prelude.{◌≡◌, List, ℕ, length}
use Rattle.std.specs.Borrow.{MutBor}
use Rattle.relaxation.specs.declared.net.Links.{Links}
use Rattle.relaxation.specs.declared.scratch.Tree.{Tree}
use Rattle.relaxation.specs.declared.scratch.Hints.{Hints}

-- the same loan, with the length that it had
pub record LoanKept (old new : MutBor (List ℕ)) : Type 0 where
  pub same : new.ghost_name ≡ old.ghost_name
  pub long : length new.now ≡ length old.now

-- the same loan, and it holds what it held
pub record LoanRead (old new : MutBor (List ℕ)) : Type 0 where
  pub same : new.ghost_name ≡ old.ghost_name
  pub held : new.now ≡ old.now

-- lists of edges that may be other ones, in the same slices
pub record LinksKept (old new : Links) : Type 0 where
  pub head : LoanKept old.head new.head
  pub next : LoanKept old.next new.next

-- lists of edges as they were
pub record LinksRead (old new : Links) : Type 0 where
  pub head : LoanRead old.head new.head
  pub next : LoanRead old.next new.next

-- another tree in the same slices
pub record TreeKept (old new : Tree) : Type 0 where
  pub rank : LoanKept old.rank new.rank
  pub parent : LoanKept old.parent new.parent
  pub capacity : LoanKept old.capacity new.capacity

-- the lists as they were, and another queue in the same slice
pub record HintsKept (old new : Hints) : Type 0 where
  pub outs : LinksRead old.outs new.outs
  pub ins : LinksRead old.ins new.ins
  pub queue : LoanKept old.queue new.queue
