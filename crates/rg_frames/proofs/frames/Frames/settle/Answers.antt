use Rattle.std.proofs.Common.{◌≡◌, ◌≤◌, ◌+◌, List, length, subst, sym, ap, arith}
use Rattle.rg_base.specs.declared.value.Word.{Word}
use Rattle.rg_frames.specs.Inner.Layout.{Unwritten, frames_of, lives_of}
use Rattle.rg_frames.specs.Stack.{Stack}
use Rattle.rg_frames.specs.Changes.{ended}
use Rattle.rg_frames.proofs.Unwriting.{unwritten-end}
use Rattle.rg_frames.proofs.frames.Frames.settle.Goals as goal

pub invariant_of-self : goal.invariant_of-self
invariant_of-self c =
    let s = c.self.inside in
    let P : Stack → Type 0 = λ v. ended v c.args.s ≡ v in
    let Q : Stack → Type 0 = λ v. v.first + c.args.s ≤ length v.slots in
    let R : List Word → Type 0 = λ xs. Unwritten xs s.first (frames_of s.rows.items) (s.first + c.args.s) (lives_of s.rows.items) in
    let nil = ap (λ (v : Stack). v.slots) (subst P (sym c.self.view_is) c.requires.nil) in
    let within = subst Q (sym c.self.view_is) c.requires.within in
    (c.self.invariant.0, subst R nil (unwritten-end _ _ _ _ _ _ (omega arith) within c.self.invariant.1), c.self.invariant.2, c.self.invariant.3)
