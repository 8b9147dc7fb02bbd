-- What is shown where each object becomes another one, or is gone, by a rule that goes by what it shows.
use Rattle.std.proofs.Common.{◌≡◌, ◌⊎◌, inl, inr, ℕ, map, Option, Some, None, refl, sym, ap, ◌∙◌, arith}
use Rattle.std.specs.List.{range_with_len}
use Rattle.std.proofs.lemmas.Option.{none-some, same_Some}
use Rattle.rg_base.specs.declared.object.Seen.{Seen}
use Rattle.rg_cells.specs.declared.cell.Body.{Body}
use Rattle.rg_cells.specs.Table.{Heap, body_at, Serials}
use Rattle.rg_cells.proofs.SerialsKept.{serials_of}
use Rattle.rg_view.specs.View.{object_of, seen_of, store_of}
use Rattle.rg_view.proofs.List.{map-numbers, map-map}
use Rattle.rg_view.proofs.Callers.Look.{look, seen-held, seen-gone}
use Rattle.rg_held.specs.Gone.{gone}

-- a held cell shows what the rule makes of it
pub record Turned (old new : Heap) (F : Seen → Seen) (slot : ℕ) (b : Body) : Type 0 where
  pub body : Body
  pub held : body_at new slot ≡ Some body
  pub serial : b.serial ≡ body.serial
  pub shown : object_of new (Some body) ≡ F (object_of old (Some b))

-- it is freed, and the rule says so
pub record Ended (old new : Heap) (F : Seen → Seen) (slot : ℕ) (b : Body) : Type 0 where
  pub freed : body_at new slot ≡ None
  pub shown : F (object_of old (Some b)) ≡ gone

-- so it is for all; none comes
pub record Becomes (old new : Heap) (F : Seen → Seen) : Type 0 where
  pub next : new.next ≡ old.next
  pub gone_stays : F gone ≡ gone
  pub each : (slot : ℕ) (b : Body) → body_at old slot ≡ Some b → Turned old new F slot b ⊎ Ended old new F slot b
  pub none : (slot : ℕ) → body_at old slot ≡ None → body_at new slot ≡ None

module _ (old new : Heap) (F : Seen → Seen) (q : Serials old) (r : Becomes old new F) where
  was : (s : ℕ) (d : Body) → body_at new s ≡ Some d → (c : Body) × (body_at old s ≡ Some c) × (c.serial ≡ d.serial)
  was s d e = by (body_at old s) refl
    where
      by : (o : Option Body) → body_at old s ≡ o → (c : Body) × (body_at old s ≡ Some c) × (c.serial ≡ d.serial)
      by None f = absurd (none-some d (sym (r.none s f) ∙ e))
      by (Some c) f = elim (r.each s c f) [
        | inl t ↦ (c, f, t.serial ∙ ap (λ (x : Body). x.serial) (same_Some t.body d (sym t.held ∙ e)))
        | inr t ↦ absurd (none-some d (sym t.freed ∙ e))
      ]

  -- serials still differ
  pub becomes-serials : Serials new
  becomes-serials = serials_of old new (let n = r.next in omega (arith, n)) was q

  becomes-seen : (a : ℕ) → seen_of new a ≡ F (seen_of old a)
  becomes-seen a = elim (look old a) [
    | inl here ↦ elim (r.each here.slot here.body here.held) [
      | inl t ↦
          ap (seen_of new) (sym here.serial ∙ t.serial)
          ∙ seen-held new here.slot t.body becomes-serials t.held
          ∙ t.shown
          ∙ ap F (sym here.shown)
      | inr t ↦
          seen-gone new a (λ s d e f.
          let x = was s d e in
          let at : s ≡ here.slot = q.differ s here.slot x.0 here.body x.1 here.held (x.2 ∙ f ∙ sym here.serial) in
          none-some d (sym t.freed ∙ ap (body_at new) (sym at) ∙ e))
          ∙ sym t.shown
          ∙ ap F (sym here.shown)
    ]
    | inr missing ↦
        seen-gone new a (λ s d e f. let x = was s d e in missing.lacks s x.0 x.1 (x.2 ∙ f))
        ∙ sym r.gone_stays
        ∙ ap F (sym missing.shown)
  ]

  -- the store behind it
  pub becomes-store : store_of new ≡ map F (store_of old)
  becomes-store =
      ap (λ n. map (seen_of new) (range_with_len 0 n)) r.next
      ∙ map-numbers (seen_of new) (λ a. F (seen_of old a)) 0 old.next (λ a le lt. becomes-seen a)
      ∙ sym (map-map (seen_of old) F (range_with_len 0 old.next))
