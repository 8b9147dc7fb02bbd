-- What is kept for frames rises, frame by frame from the top, above a place that is written.
use Rattle.std.proofs.Common.{◌≡◌, ◌≤◌, ℕ, suc, List, Some, length, slice_get, slice_set, refl, sym, ap, ◌∙◌, subst, arith, inl, inr, option_map}
use Rattle.std.proofs.lemmas.Bool.{cases_eq}
use Rattle.std.proofs.lemmas.List.{length-map, length-set}
use Rattle.std.proofs.lemmas.Option.{slice_get-map, slice_get_within}
use Rattle.rg_base.specs.declared.value.Word.{Word}
use Rattle.rg_frames.specs.declared.rows.Row.{Row}
use Rattle.rg_frames.specs.Inner.Layout.{Unwritten, IsPast, end_of, frames_of, lives_of}
use Rattle.rg_frames.proofs.Unwriting.{got-beside}
use Rattle.rg_frames.proofs.Raised.{unwritten-past, unwritten-kept, end_at, end_top, got-written}
use Rattle.rg_frames.proofs.Taken.{frames-set, lives-set}

-- the rows from the k-th on are done, and the place is past what they keep
pub record Raising (old now : List Row) (first place k end : ℕ) : Type 0 where
  pub within : k ≤ length now
  pub many : length now ≡ length old
  pub frames : frames_of now ≡ frames_of old
  pub ends : end ≡ end_of (frames_of old) first k
  pub raised : (slots : List Word) (live : ℕ) → Unwritten slots first (frames_of old) live (lives_of old)
      → Unwritten slots first (frames_of old) live (lives_of now)
  pub past : (j m : ℕ) → k ≤ j → slice_get (lives_of now) j ≡ Some m → IsPast place m (end_of (frames_of old) first (suc j))

pub raising-init : (rows : List Row) (first place k : ℕ) → k ≡ length rows → Raising rows rows first place k first
raising-init rows first place k e =
    let some : length (frames_of rows) ≡ length rows = length-map rows (λ (r : Row). r.frame) in
    let kept : length (lives_of rows) ≡ length rows = length-map rows (λ (r : Row). r.live) in
    record {
      within = omega (arith, e);
      many = refl;
      frames = refl;
      ends = sym (end_top (frames_of rows) first k (omega (arith, some, e)));
      raised = λ slots live u. u;
      past = λ j m p g. absurd (omega (arith, p, e, kept, slice_get_within (lives_of rows) j m g));
    }

-- one row more
pub raising-on : (old now : List Row) (first place k j end then : ℕ) (row : Row) → Raising old now first place k end → k ≡ suc j
    → slice_get now j ≡ Some row → row.live ≤ then → (row.live ≤ end → then ≤ end) → IsPast place then end
    → Raising old (slice_set now j (record { frame = row.frame; live = then })) first place j row.frame.below
raising-on old now first place k j end then row h is got up keep past =
    let new : Row = record { frame = row.frame; live = then } in
    let many : length (slice_set now j new) ≡ length now = length-set now j new in
    let was : slice_get (lives_of now) j ≡ Some row.live =
    slice_get-map (λ (r : Row). r.live) now j ∙ ap (option_map (λ (r : Row). r.live)) got in
    let top : slice_get (frames_of old) j ≡ Some row.frame =
    ap (λ fs. slice_get fs j) (sym h.frames) ∙ slice_get-map (λ (r : Row). r.frame) now j ∙ ap (option_map (λ (r : Row). r.frame)) got in
    let over : end_of (frames_of old) first (suc j) ≡ end = ap (end_of (frames_of old) first) (sym is) ∙ sym h.ends in
    let lives : lives_of (slice_set now j new) ≡ slice_set (lives_of now) j then = lives-set now j new in
    record {
      within = omega (arith, h.within, is, many);
      many = many ∙ h.many;
      frames = frames-set now j new row got refl ∙ h.frames;
      ends = sym (end_at (frames_of old) first j row.frame top);
      raised = λ slots live u. rw lives (unwritten-kept slots first (frames_of old) live (lives_of now) j row.live then was up
          (λ q. omega (arith, over, keep (omega (arith, q, over)))) (h.raised slots live u));
      past = λ i m p e.
          let f : slice_get (slice_set (lives_of now) j then) i ≡ Some m = ap (λ ls. slice_get ls i) (sym lives) ∙ e in
          elim (cases_eq i j) [
            | inl q ↦
                let same : m ≡ then = got-written (lives_of now) j then m (ap (slice_get (slice_set (lives_of now) j then)) (sym q) ∙ f) in
                let P : ℕ → Type 0 = λ z. IsPast place m z in
                let Q : ℕ → Type 0 = λ z. IsPast place z end in
                subst P (sym (ap (λ z. end_of (frames_of old) first (suc z)) q ∙ over)) (subst Q (sym same) past)
            | inr q ↦ h.past i m (omega (arith, p, q, is)) (got-beside (lives_of now) j then i m q f)
          ];
    }

-- all are done: the place may be written
pub raising-done : (old now : List Row) (first place k end : ℕ) → Raising old now first place k end → k ≤ 0 → (slots : List Word) (live : ℕ)
    (w : Word) → IsPast place live (length slots) → Unwritten slots first (frames_of old) live (lives_of old)
    → Unwritten (slice_set slots place w) first (frames_of now) live (lives_of now)
raising-done old now first place k end h none slots live w past u =
    rw h.frames (unwritten-past slots first (frames_of old) live (lives_of now) place w past (λ j m e. h.past j m (omega (arith, none)) e)
    (h.raised slots live u))
