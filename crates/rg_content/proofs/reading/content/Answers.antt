use Rattle.std.proofs.Common.{◌∙◌, inl, inr, sym, ap, subst}
use Rattle.rg_base.specs.declared.value.Word.TheVariants as word
use Rattle.rg_regions.specs.Table.{IsBridge}
use Rattle.rg_cown.specs.Cargo.{CargoList}
use Rattle.rg_cown.specs.Contents.{cargo_at}
use Rattle.rg_heap.specs.Parts.{Parts as HeapParts}
use Rattle.rg_content.proofs.Told.{may-read, said}
use Rattle.rg_content.proofs.reading.content.Goals as goal

pub read-requires : goal.read-requires
read-requires c =
    let q = c.is_sound.ensures in
    let o = c.requires.owns in
    may-read c.args.p.now q.serials q.forest q.stands q.windows o.0 o.1 o.2 o.3 o.4 c.heap-heap.result.now c.heap-heap.ensures c.in-Some.slot
    c.args.serial c.args.field c.in-Some.ensures.some o.5

pub unreachable-requires-in-Int : goal.unreachable-requires-in-Int
unreachable-requires-in-Int c =
    let q = c.is_sound.ensures in
    let o = c.requires.owns in
    let s = said c.args.p.now q.serials q.forest q.stands q.windows o.0 o.1 o.2 o.3 o.4 c.heap-heap.result.now c.heap-heap.ensures c.in-Some.slot
    c.args.serial c.args.field c.in-Some.ensures.some o.5 c.read.result c.in-Ok.word in
    elim c.in-Int.is [
      | inl x ↦ s (word.Int x.0) c.in-Ok.is c.read.ensures x.1
      | inr x ↦ s (word.Bool x.0) c.in-Ok.is c.read.ensures x.1
    ]

pub unload-requires : goal.unload-requires
unload-requires c =
    let q = c.is_sound.ensures in
    let o = c.requires.owns in
    let s = said c.args.p.now q.serials q.forest q.stands q.windows o.0 o.1 o.2 o.3 o.4 c.heap-heap.result.now c.heap-heap.ensures c.in-Some.slot
    c.args.serial c.args.field c.in-Some.ensures.some o.5 c.read.result c.in-Ok.word (word.Slot c.in-Slot.bridge) c.in-Ok.is c.read.ensures
    c.in-Slot.is in
    let B : HeapParts → Type 0 = λ h. IsBridge h.regions s.0.0 c.in-Slot.bridge in
    (s.0.0, s.0.1, subst B (sym c.heap-heap.ensures) s.0.2)

pub returns-in-Nil : goal.returns-in-Nil
returns-in-Nil c t code s fit shown x =
    let q = c.is_sound.ensures in
    said c.args.p.now q.serials q.forest q.stands q.windows t code s fit shown c.heap-heap.result.now c.heap-heap.ensures c.in-Some.slot
    c.args.serial c.args.field c.in-Some.ensures.some x c.read.result c.in-Ok.word word.Nil c.in-Ok.is c.read.ensures c.in-Nil.is

pub returns-in_ok-cargo-in-Slot : goal.returns-in_ok-cargo-in-Slot
returns-in_ok-cargo-in-Slot c t code s fit shown x =
    let q = c.is_sound.ensures in
    let y = said c.args.p.now q.serials q.forest q.stands q.windows t code s fit shown c.heap-heap.result.now c.heap-heap.ensures c.in-Some.slot
    c.args.serial c.args.field c.in-Some.ensures.some x c.read.result c.in-Ok.word (word.Slot c.in-Slot.bridge) c.in-Ok.is c.read.ensures
    c.in-Slot.is in
    let C : HeapParts → CargoList = λ h. cargo_at h.cells.heap h.regions c.in-Slot.bridge in
    (y.1.0, y.1.1, c.in_ok-cargo-in-Slot.ensures.cargo ∙ ap C c.heap-heap.ensures ∙ y.1.2)
