-- What a call leaves of a stock that it takes.
use Rattle.relaxation.specs.Loans.{LoanKept}
use Rattle.transport.specs.declared.stock.Stock.{Stock}

-- other supply and demand in the same slices
pub record StockKept (old new : Stock) : Type 0 where
  pub supply : LoanKept old.supply new.supply
  pub demand : LoanKept old.demand new.demand
