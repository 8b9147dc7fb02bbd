-- What a source in memory is (docs/architecture.md).
use Rattle.std.specs.Prelude.{◌≡◌, ℕ, List, Some}
use Rattle.rg_io.specs.Calls.{CallCounts, with_call, with_fault}
use Rattle.rg_io.specs.Content.{Gives, Reply, gave, failed}

-- the bytes that are left, the largest piece of one call, and its calls
pub record InMemorySource : Type 0 where
  pub left : List ℕ
  pub largest : ℕ
  pub calls : CallCounts

-- a read takes the bytes of its reply, and each is a call
abbrev pub memory_replies : InMemorySource → Reply → InMemorySource → Type 0
memory_replies s (gave bytes) t = Gives (Some s.left) (Some t.left) bytes × (t ≡ record s { left = t.left; calls = with_call s.calls })
memory_replies s failed t = t ≡ record s { calls = with_fault s.calls }
