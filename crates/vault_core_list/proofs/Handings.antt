-- Entries handed to a sink, one by one.
use Rattle.std.proofs.Common.{◌≡◌, ℕ, ◌+◌, ◌<◌, List, [], ◌∷◌, ◌++◌, length, map, filter, take, drop, get_or, true, false, not, inl, inr, refl, sym, ap, ◌∙◌, subst, append_assoc}
use Rattle.std.proofs.lemmas.List.{map-append, take-append-drop}
use Rattle.std.proofs.lemmas.List.Elements.{filter-append, filter_more}
use Rattle.vault_core_model.specs.declared.records.Entry.{Entry}
use Rattle.vault_core_model.specs.declared.records.History.{History}
use Rattle.vault_core_model.specs.Handing.{Taking, TakesAll, Refuses}
use Rattle.vault_core_model.specs.Places.{is_held}
use Rattle.vault_core_list.proofs.Heads.{other-more}

-- an entry more, which the sink took
pub takes-more : {S : Type 0} (takes : Taking S) (s mid s' : S) (es : List Entry) (e : Entry) → TakesAll takes s es mid → takes mid e true s' → TakesAll takes s (es ++ e ∷ []) s'
takes-more takes s mid s' [] e same took = (s', subst (λ t. takes t e true s') same took, refl)
takes-more takes s mid s' (x ∷ es) e all took = (all.0, all.1, takes-more takes all.0 mid s' es e all.2 took)

-- an entry more, which the sink refused, whatever is after it
pub refuses-next : {S : Type 0} (takes : Taking S) (s mid s' : S) (es : List Entry) (e : Entry) (rest : List Entry) → TakesAll takes s es mid → takes mid e false s' → Refuses takes s (es ++ e ∷ rest) s'
refuses-next takes s mid s' [] e rest same refused = inl (subst (λ t. takes t e false s') same refused)
refuses-next takes s mid s' (x ∷ es) e rest all refused = inr (all.0, all.1, refuses-next takes all.0 mid s' es e rest all.2 refused)

abbrev pub removed : List History → List Entry
removed hs = map (λ h. h.entry) (filter (λ h. not (is_held h.entry)) hs)

removed-append : (hs gs : List History) → removed (hs ++ gs) ≡ removed hs ++ removed gs
removed-append hs gs =
    let p = λ (h : History). not (is_held h.entry) in
    rw (filter-append p hs gs, map-append (λ (h : History). h.entry) (filter p hs) (filter p gs)) refl

-- a removed entry more
pub removed-more : (hs : List History) (i : ℕ) (h : History) → i < length hs → h ≡ get_or hs i h → not (is_held h.entry) ≡ true → removed (take (i + 1) hs) ≡ removed (take i hs) ++ h.entry ∷ []
removed-more hs i h lt is gone =
    let p = λ (g : History). not (is_held g.entry) in
    rw (filter_more p hs i h lt, ← is, gone) (map-append (λ (g : History). g.entry) (filter p (take i hs)) (h ∷ []))

-- a held entry more
pub removed-held : (hs : List History) (i : ℕ) (h : History) → i < length hs → h ≡ get_or hs i h → not (is_held h.entry) ≡ false → removed (take (i + 1) hs) ≡ removed (take i hs)
removed-held hs i h lt is held = ap (map (λ (g : History). g.entry)) (other-more (λ (g : History). not (is_held g.entry)) hs i h lt is held)

-- those before a removed entry, the entry, and those after it
pub removed-around : (hs : List History) (i : ℕ) (h : History) → i < length hs → h ≡ get_or hs i h → not (is_held h.entry) ≡ true → removed hs ≡ removed (take i hs) ++ h.entry ∷ removed (drop (i + 1) hs)
removed-around hs i h lt is gone =
    ap removed (sym (take-append-drop (i + 1) hs))
    ∙ removed-append (take (i + 1) hs) (drop (i + 1) hs)
    ∙ ap (λ es. es ++ removed (drop (i + 1) hs)) (removed-more hs i h lt is gone)
    ∙ append_assoc (removed (take i hs)) (h.entry ∷ []) (removed (drop (i + 1) hs))
