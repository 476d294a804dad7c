-- What a call leaves of the solver's scratch.
use Rattle.relaxation.specs.Loans.{LoanKept, LinksKept, TreeKept}
use Rattle.transport.specs.Stocks.{StockKept}
use Rattle.network.specs.declared.Work.{Work}

-- each slice is the same loan, with the length that it had; what they hold is free
pub record WorkKept (old new : Work) : Type 0 where
  pub tree : TreeKept old.tree new.tree
  pub stock : StockKept old.stock new.stock
  pub outs : LinksKept old.hints.outs new.hints.outs
  pub ins : LinksKept old.hints.ins new.hints.ins
  pub queue : LoanKept old.hints.queue new.hints.queue
  pub lowest : LoanKept old.lowest new.lowest
