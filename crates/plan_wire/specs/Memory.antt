-- What sources and sinks in memory hold.
use Rattle.std.specs.Prelude.{ℕ, List}

-- the bytes written, how many there may be, and the count of faults
pub record Held : Type 0 where
  pub bytes : List ℕ
  pub room : ℕ
  pub faults : ℕ

-- which calls are to fail, counted from 1, and how many were made
pub record Calls : Type 0 where
  pub fails : List ℕ
  pub made : ℕ

-- the bytes that are left, how many a call gives at most, the calls, and the count of faults
pub record Left : Type 0 where
  pub bytes : List ℕ
  pub piece : ℕ
  pub calls : Calls
  pub faults : ℕ

-- what is held, how many bytes a call takes at most, and the calls
pub record HeldInPieces : Type 0 where
  pub held : Held
  pub piece : ℕ
  pub calls : Calls
