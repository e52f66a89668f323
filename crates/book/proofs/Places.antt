-- Rules in places: what is held after one is put last, taken out, or given another count.
-- Assumes nothing.
use Rattle.std.proofs.Common.{MatchResult, Ok, Err, ◌≡◌, ℕ, zero, suc, ◌+◌, ◌-◌, ◌<◌, ◌≤◌, List, [], ◌∷◌, ◌++◌, length, length-append, map, take, drop, replicate, set, remove, sym, ap, ◌∙◌, arith}
use Rattle.std.proofs.lemmas.List.{append_assoc, get_or-take, length-map, length-take-le, map-append, map-set, length-set, replicate-append-replicate, set_at, set-append_left, set-get_or, take_at, take-map, drop-map}
use Rattle.std.proofs.lemmas.List.Edits.{length-remove, remove-append_left}
use Rattle.std.proofs.lemmas.Option.{slice_get-get_or}
use Rattle.rules.specs.declared.rules.Rule.{Rule}
use Rattle.std.proofs.Math.ListN.{get_or-map}
use Rattle.rules.specs.declared.rules.RuleRefusal.{RuleRefusal}
use Rattle.rules.specs.declared.rules.RuleRefusal.TheVariants.{CountOutside}
use Rattle.rules.specs.Form.{CountRight}
use Rattle.rules.specs.Naming.{arguments_of}
use Rattle.rules.specs.Rule.{Terms, terms, retuned, Retuned}
use Rattle.book.specs.declared.held.Held.{Held}
use Rattle.std.proofs.Common.{Some, slice_get, slice_index_or, Result}
use Rattle.book.specs.Held.{most_rules, blank, places_of, held_rules, filled_up, Tidy, RetunedAt}

-- Taking out of a mapped list.
map-remove : {X Y : Type 0} (f : X → Y) (xs : List X) (i : ℕ) → map f (remove xs i) ≡ remove (map f xs) i
map-remove f xs i = map-append f (take i xs) (drop (suc i) xs) ∙ ap (λ l. l ++ map f (drop (suc i) xs)) (sym (take-map f i xs)) ∙ ap (λ l. take i (map f xs) ++ l) (sym (drop-map f (suc i) xs))

-- Blank places, one fewer and one more.
one_fewer : (k : ℕ) → 0 < k → replicate k blank ≡ blank ∷ replicate (k - 1) blank
one_fewer zero h = absurd (omega arith)
one_fewer (suc k) h = ap (λ n. blank ∷ replicate n blank) (omega arith)

one_more : (k n : ℕ) → n ≡ k + 1 → replicate k blank ++ blank ∷ [] ≡ replicate n blank
one_more k n e = replicate-append-replicate k 1 blank ∙ ap (λ m. replicate m blank) (sym e)

module _ (h : Held) (tidy : Tidy h) where
  -- As many rules are held as are counted, and the places are those rules and blank ones.
  places_long : length (places_of h) ≡ most_rules
  places_long = length-map h.rules terms ∙ tidy.places

  pub held_long : length (held_rules h) ≡ h.count
  held_long = length-take-le h.count (places_of h) (omega (arith, places_long, tidy.room))

  laid_out : places_of h ≡ held_rules h ++ replicate (most_rules - h.count) blank
  laid_out = tidy.laid ∙ ap (λ n. held_rules h ++ replicate (most_rules - n) blank) held_long

-- Places of rules and blank ones hold just those rules.
holding : (h : Held) (rs : List Terms) → length rs ≡ h.count → h.count ≤ most_rules → places_of h ≡ rs ++ replicate (most_rules - h.count) blank → length h.rules ≡ most_rules
    → Tidy h × (held_rules h ≡ rs)
holding h rs long room at all = (record { places = all; room = room; laid = at ∙ ap (λ n. rs ++ replicate (most_rules - n) blank) (sym long) ∙ ap filled_up (sym held) }, held)
  where
    held : held_rules h ≡ rs
    held = ap (take h.count) at ∙ take_at rs _ h.count long

-- The rules held tell how many are counted, and all that stands in the places.
pub told_by_rules : (h g : Held) → Tidy h → Tidy g → held_rules h ≡ held_rules g → (h.count ≡ g.count) × (places_of h ≡ places_of g)
told_by_rules h g tidy also same = (sym (held_long h tidy) ∙ ap length same ∙ held_long g also, tidy.laid ∙ ap filled_up same ∙ sym also.laid)

module _ (h : Held) (tidy : Tidy h) where
  -- A rule put last.
  pub pushed : (r : Rule) → h.count < most_rules → let next : Held = record { rules = set h.rules h.count r; count = h.count + 1 } in Tidy next × (held_rules next ≡ held_rules h ++ terms r ∷ [])
  pushed r room =
      let rs = held_rules h in
      let next : Held = record { rules = set h.rules h.count r; count = h.count + 1 } in
      holding next (rs ++ terms r ∷ []) (length-append rs _ ∙ omega (arith, held_long h tidy)) (omega arith) at (length-set h.rules h.count r ∙ tidy.places)
    where
      at : map terms (set h.rules h.count r) ≡ (held_rules h ++ terms r ∷ []) ++ replicate (most_rules - (h.count + 1)) blank
      at = map-set terms h.rules h.count r
          ∙ ap (λ ps. set ps h.count (terms r)) (laid_out h tidy ∙ ap (λ rest. held_rules h ++ rest) (one_fewer (most_rules - h.count) (omega arith)))
          ∙ set_at (held_rules h) blank _ (terms r) h.count (held_long h tidy)
          ∙ ap (λ n. held_rules h ++ terms r ∷ replicate n blank) (omega arith)
          ∙ sym (append_assoc (held_rules h) (terms r ∷ []) _)

  -- A rule taken out: the rules are turned by one place from there on, and the last place is made blank.
  pub removed : (i : ℕ) (rules : List Rule) (y x : Rule) → i < h.count → rules ≡ remove h.rules i ++ y ∷ [] → terms x ≡ blank
      → let next : Held = record { rules = set rules 15 x; count = h.count - 1 } in Tidy next × (held_rules next ≡ remove (held_rules h) i)
  removed i rules y x held turned e =
      holding (record { rules = set rules 15 x; count = h.count - 1 }) (remove (held_rules h) i) (omega (arith, length-remove (held_rules h) i (omega (arith, held_long h tidy)), held_long h tidy)) (omega (arith, tidy.room)) at
      (length-set rules 15 x ∙ ap length turned ∙ length-append (remove h.rules i) _ ∙ length-remove h.rules i (omega (arith, tidy.places, tidy.room)) ∙ tidy.places)
    where
      fewer : List Terms
      fewer = remove (held_rules h) i

      parts : remove (places_of h) i ≡ fewer ++ replicate (most_rules - h.count) blank
      parts = ap (λ ps. remove ps i) (laid_out h tidy) ∙ remove-append_left (held_rules h) _ i (omega (arith, held_long h tidy))

      long : length (remove (places_of h) i) ≡ 15
      long = omega (arith, length-remove (places_of h) i (omega (arith, places_long h tidy, tidy.room)), places_long h tidy)

      mapped : map terms rules ≡ remove (places_of h) i ++ terms y ∷ []
      mapped = ap (map terms) turned ∙ map-append terms (remove h.rules i) _ ∙ ap (λ rest. rest ++ terms y ∷ []) (map-remove terms h.rules i)

      at : map terms (set rules 15 x) ≡ fewer ++ replicate (most_rules - (h.count - 1)) blank
      at = map-set terms rules 15 x ∙ ap (λ ps. set ps 15 (terms x)) mapped ∙ set_at (remove (places_of h) i) (terms y) [] (terms x) 15 long
          ∙ ap (λ z. remove (places_of h) i ++ z ∷ []) e ∙ ap (λ rest. rest ++ blank ∷ []) parts ∙ append_assoc fewer _ _
          ∙ ap (λ rest. fewer ++ rest) (one_more (most_rules - h.count) (most_rules - (h.count - 1)) (omega (arith, tidy.room)))

  -- A rule given another count, in its place alone.
  module _ (i n : ℕ) (d y : Rule) (held : i < h.count) (given : Result Unit RuleRefusal) (told : Retuned given n (slice_index_or h.rules i d) y) where
    abbrev x : Rule
    x = slice_index_or h.rules i d

    abbrev next : Held
    next = record { rules = set h.rules i y; count = h.count }

    -- All places stay, and so do all rules held, but for that one.
    retuned_places : Tidy next × (held_rules next ≡ set (held_rules h) i (terms y))
    retuned_places =
        let inside : i < length (held_rules h) = omega (arith, held_long h tidy) in
        holding next (set (held_rules h) i (terms y)) (length-set (held_rules h) i (terms y) ∙ held_long h tidy) tidy.room
        (map-set terms h.rules i y ∙ ap (λ ps. set ps i (terms y)) (laid_out h tidy) ∙ set-append_left (held_rules h) _ i (terms y) inside)
        (length-set h.rules i y ∙ tidy.places)

    -- The rule stands there before.
    there : slice_get (held_rules h) i ≡ Some (terms x)
    there = slice_get-get_or (held_rules h) i (terms d) (omega (arith, held_long h tidy)) ∙ ap Some (get_or-take h.count (places_of h) i (terms d) held ∙ get_or-map terms h.rules i d)

    -- So it is told.
    pub retuned_tidy : Tidy next
    retuned_tidy = retuned_places.0

    pub retuned_at : RetunedAt i n given h next
    retuned_at = (terms x, there, by_result given told)
      where
        by_result : (given : Result Unit RuleRefusal) → Retuned given n x y → MatchResult given
            (λ _. CountRight (arguments_of x.template) n × (held_rules next ≡ set (held_rules h) i (retuned (terms x) n)))
            (λ e. (e ≡ CountOutside) × (CountRight (arguments_of x.template) n → ⊥) × (next ≡ h))
        by_result (Ok u) (right, e) = (right, retuned_places.1 ∙ ap (set (held_rules h) i) e)
        by_result (Err e) (is, wrong, same) = (is, wrong, ap (λ y. record { rules = set h.rules i y; count = h.count }) same ∙ ap (λ rs. record { rules = rs; count = h.count }) (set-get_or h.rules i d))
