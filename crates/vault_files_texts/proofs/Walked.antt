-- What a walk over removed entries has written.
use Rattle.std.proofs.Common.{◌≡◌, ◌≢◌, ℕ, Bool, true, false, List, [], ◌∷◌, ◌++◌, ◌∙◌, sym, refl, ap, subst, inl, inr, append_assoc}
use Rattle.std.proofs.lemmas.List.{append-nil}
use Rattle.std.specs.Prelude.{Option, Result, Ok, Err, OnOk, OnErr}
use Rattle.std.specs.List.{flat_map}
use Rattle.std.specs.Io.KnownBytes.{Appends}
use Rattle.std.proofs.KnownBytes.{Appends-trans, Appends-nil}
use Rattle.vault_core_model.specs.declared.halt.Fault.{Fault}
use Rattle.vault_core_model.specs.declared.records.Entry.{Entry}
use Rattle.vault_core_model.specs.Handing.{Hands, TakesAll, TakesSome, Refuses}
use Rattle.vault_files_texts.specs.declared.rows.RegisterRows.{RegisterRows}
use Rattle.vault_files_texts.specs.Register.{row}
use Rattle.vault_io.specs.Begins.{Begins}
use Rattle.vault_files_texts.specs.Rows.{WritesRow}

-- ---- it is the same writer

all_name : {W : Type 0} (contents : W → Option (List ℕ)) (s : RegisterRows W) (es : List Entry) (t : RegisterRows W) → TakesAll (WritesRow contents) s es t → t.writer.ghost_name ≡ s.writer.ghost_name
all_name {W} contents s [] t e = ap (λ (r : RegisterRows W). r.writer.ghost_name) e
all_name contents s (e ∷ es) t h = all_name contents h.0 es t h.2 ∙ h.1.0

some_name : {W : Type 0} (contents : W → Option (List ℕ)) (s : RegisterRows W) (es : List Entry) (t : RegisterRows W) → TakesSome (WritesRow contents) s es t → t.writer.ghost_name ≡ s.writer.ghost_name
some_name {W} contents s [] t e = ap (λ (r : RegisterRows W). r.writer.ghost_name) e
some_name {W} contents s (e ∷ es) t (inl h) = ap (λ (r : RegisterRows W). r.writer.ghost_name) h
some_name contents s (e ∷ es) t (inr h) = some_name contents h.0 es t h.2 ∙ h.1.0

refused_name : {W : Type 0} (contents : W → Option (List ℕ)) (s : RegisterRows W) (es : List Entry) (t : RegisterRows W) → Refuses (WritesRow contents) s es t → t.writer.ghost_name ≡ s.writer.ghost_name
refused_name contents s [] t e = absurd e
refused_name contents s (e ∷ es) t (inl h) = h.0
refused_name contents s (e ∷ es) t (inr h) = refused_name contents h.0 es t h.2 ∙ h.1.0

pub handed_name : {W : Type 0} (contents : W → Option (List ℕ)) (s : RegisterRows W) (es : List Entry) (r : Result Bool Fault) (t : RegisterRows W) → Hands (WritesRow contents) s es r t → t.writer.ghost_name ≡ s.writer.ghost_name
handed_name contents s es (Ok true) t h = all_name contents s es t h
handed_name contents s es (Ok false) t h = refused_name contents s es t h
handed_name contents s es (Err f) t h = some_name contents s es t h

-- ---- what was written to it

-- nothing is a beginning
nothing : (a : Option (List ℕ)) (bytes : List ℕ) → Begins a a bytes
nothing a bytes = ([], bytes, refl, Appends-nil a)

-- a beginning after what was written whole
later : (a b c : Option (List ℕ)) (front back : List ℕ) → Appends a b front → Begins b c back → Begins a c (front ++ back)
later a b c front back w h = (front ++ h.0, h.1, ap (λ l. front ++ l) h.2 ∙ sym (append_assoc front h.0 h.1), Appends-trans a b c front h.0 w h.3)

-- a beginning of the front
sooner : (a b : Option (List ℕ)) (front back : List ℕ) → Begins a b front → Begins a b (front ++ back)
sooner a b front back h = (h.0, h.1 ++ back, ap (λ l. l ++ back) h.2 ∙ append_assoc h.0 h.1 back, h.3)

all_rows : {W : Type 0} (contents : W → Option (List ℕ)) (s : RegisterRows W) (es : List Entry) (t : RegisterRows W) → TakesAll (WritesRow contents) s es t → Appends (contents s.writer.now) (contents t.writer.now) (flat_map row es)
all_rows {W} contents s [] t e = subst (λ (r : RegisterRows W). Appends (contents s.writer.now) (contents r.writer.now) []) (sym e) (Appends-nil _)
all_rows contents s (e ∷ es) t h = Appends-trans _ _ _ (row e) (flat_map row es) h.1.1 (all_rows contents h.0 es t h.2)

some_rows : {W : Type 0} (contents : W → Option (List ℕ)) (s : RegisterRows W) (es : List Entry) (t : RegisterRows W) → TakesSome (WritesRow contents) s es t → Begins (contents s.writer.now) (contents t.writer.now) (flat_map row es)
some_rows {W} contents s [] t e = subst (λ (r : RegisterRows W). Begins (contents s.writer.now) (contents r.writer.now) []) (sym e) (nothing _ [])
some_rows {W} contents s (e ∷ es) t (inl h) = subst (λ (r : RegisterRows W). Begins (contents s.writer.now) (contents r.writer.now) (flat_map row (e ∷ es))) (sym h) (nothing _ _)
some_rows contents s (e ∷ es) t (inr h) = later _ _ _ (row e) (flat_map row es) h.1.1 (some_rows contents h.0 es t h.2)

refused_rows : {W : Type 0} (contents : W → Option (List ℕ)) (s : RegisterRows W) (es : List Entry) (t : RegisterRows W) → Refuses (WritesRow contents) s es t → Begins (contents s.writer.now) (contents t.writer.now) (flat_map row es)
refused_rows contents s [] t e = absurd e
refused_rows contents s (e ∷ es) t (inl h) = sooner _ _ (row e) (flat_map row es) h.1
refused_rows contents s (e ∷ es) t (inr h) = later _ _ _ (row e) (flat_map row es) h.1.1 (refused_rows contents h.0 es t h.2)

pub handed_all : {W : Type 0} (contents : W → Option (List ℕ)) (s : RegisterRows W) (es : List Entry) (r : Result Bool Fault) (t : RegisterRows W) → Hands (WritesRow contents) s es r t → r ≡ Ok true → Appends (contents s.writer.now) (contents t.writer.now) (flat_map row es)
handed_all contents s es (Ok true) t h e = all_rows contents s es t h
handed_all contents s es (Ok false) t h e = absurd (cc)
handed_all contents s es (Err f) t h e = absurd (cc)

pub handed_some : {W : Type 0} (contents : W → Option (List ℕ)) (s : RegisterRows W) (es : List Entry) (r : Result Bool Fault) (t : RegisterRows W) → Hands (WritesRow contents) s es r t → r ≢ Ok true → Begins (contents s.writer.now) (contents t.writer.now) (flat_map row es)
handed_some contents s es (Ok true) t h e = absurd (e refl)
handed_some contents s es (Ok false) t h e = refused_rows contents s es t h
handed_some contents s es (Err f) t h e = some_rows contents s es t h

-- ---- the header and the rows

pub begins_sooner : (a b : Option (List ℕ)) (front back : List ℕ) → Begins a b front → Begins a b (front ++ back)
begins_sooner = sooner

pub begins_later : (a b c : Option (List ℕ)) (front back : List ℕ) → Appends a b front → Begins b c back → Begins a c (front ++ back)
begins_later = later

-- all of it is a beginning of it
pub begins_whole : (a b : Option (List ℕ)) (bytes : List ℕ) → Appends a b bytes → Begins a b bytes
begins_whole a b bytes w = (bytes, [], sym (append-nil bytes), w)

pub on_ok : {P T E : Type 0} (r : Result T E) → P → OnOk r P
on_ok (Ok x) h = h
on_ok (Err e) h = tt

pub on_err : {P T E : Type 0} (r : Result T E) → P → OnErr r P
on_err (Ok x) h = tt
on_err (Err e) h = h
