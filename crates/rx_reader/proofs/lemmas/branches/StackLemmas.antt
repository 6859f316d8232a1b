-- What each token does to the answer that is to come.
use Rattle.std.proofs.Common.{◌≡◌, ℕ, ◌+◌, Bool, true, false, List, [], ◌∷◌, ◌++◌, length, Ok, Err, refl, ◌∙◌, ap, sym, arith, add-one, append_assoc}
use Rattle.std.proofs.lemmas.Grind.{common_steps}
use Rattle.std.proofs.lemmas.List.{append-nil}
use Rattle.std.specs.Prelude.{Result, if◌then◌else◌, nat_lt}
use Rattle.rx_reader.specs.declared.config.Config.{Config}
use Rattle.rx_reader.specs.declared.flags.Flags.{Flags}
use Rattle.rx_reader.specs.declared.group_kind.GroupKind.{GroupKind}
use Rattle.rx_reader.specs.declared.token.Token.{Token}
use Rattle.rx_reader.specs.declared.token.Token.TheVariants.{End}
use Rattle.rx_reader.specs.declared.error.SyntaxError.{SyntaxError}
use Rattle.rx_reader.specs.declared.error.SyntaxErrorKind.TheVariants.{UnclosedGroup, UnopenedGroup, NestLimit}
use Rattle.rx_reader.specs.declared.parser.Frame.{Frame}
use Rattle.rx_reader.specs.Config.{flags_of, limit_of}
use Rattle.rx_reader.specs.Reading.{Place, Read, ◌>>=◌, refuse, at_end, past}
use Rattle.rx_reader.specs.Ahead.{past_n, blank_len, skipped_len, skip}
use Rattle.rx_reader.specs.Syntax.{Syntax, group, cat, alt, syntaxes, depth}
use Rattle.rx_reader.specs.Grammar.{token, Branches, no_items, add_item, add_branch, whole, within_limit, all_repetitions, close_group, item_then, group_then, branches_at, token_then, all_branches, to_end, read}
use Rattle.rx_reader.specs.Input.{start_of}
use Rattle.rx_reader.specs.Stack.{Gathered, nothing, push_item, push_branch, merged, gathered_whole, Around, around, innermost, close_at, resume}
use Rattle.rx_reader.proofs.lemmas.branches.BranchLemmas.{all_branches-step, token-end}

pub innermost-push : (fs : List Frame) (f : Frame) → innermost (fs ++ f ∷ []) ≡ around f ∷ innermost fs
innermost-push [] f = refl
innermost-push (g ∷ fs) f = ap (λ (xs : List Around). xs ++ around g ∷ []) (innermost-push fs f)

pub innermost-length : (fs : List Frame) → length (innermost fs) ≡ length fs
innermost-length [] = refl
innermost-length (f ∷ fs) = grind (arith, common_steps, innermost-length fs)

pub stack_of : (frames xs : List Frame) (f : Frame) → frames ≡ xs ++ f ∷ [] → innermost frames ≡ around f ∷ innermost xs
stack_of frames xs f h = ap innermost h ∙ innermost-push xs f

-- at the end nothing is skipped
skip-none : (skips : Bool) (p : Place) → past_n (if skips then blank_len false [] else 0) p ≡ p
unfolding past_n blank_len
skip-none true p = refl
skip-none false p = refl

skip-nothing : (flags : Flags) (p : Place) (t : List ℕ) → p.text ≡ t → length t ≡ 0 → skip flags p ≡ p
skip-nothing flags p [] is none = ap (λ (t : List ℕ). past_n (skipped_len flags t) p) is ∙ skip-none flags.ignore_whitespace p
skip-nothing flags p (c ∷ cs) is none = absurd (omega arith)

pub skip-end : (flags : Flags) (p : Place) → at_end p ≡ true → skip flags p ≡ p
skip-end flags p h = skip-nothing flags p p.text refl (grind (arith, common_steps))

module _ (config : Config) where
  pub resume-err : (fs : List Around) (g : Gathered) (e : SyntaxError) → resume config fs g (Err e) ≡ Err e
  unfolding resume
  resume-err [] g e = refl
  resume-err (f ∷ fs) g e = refl

  -- what is read after a closed group
  then_on : (fs : List Around) (f : Around) → Read Syntax → Result Syntax SyntaxError
  then_on fs f reading = reading >>= λ (s, after). all_repetitions config f.flags s after >>= λ (x, t). resume config fs (push_item f.gathered x)
      (all_branches config f.flags (length fs) t)

  -- what changes what is read changes what was gathered
  resume-change : (fs : List Around) (g h : Gathered) (f : Branches → Branches) → ((b : Branches) → merged g (f b) ≡ merged h b) → (reading : Read Branches)
      → resume config fs g (reading >>= λ (b, r). Ok (f b, r)) ≡ resume config fs h reading
  unfolding resume then_on
  resume-change fs g h f same (Err e) = resume-err fs g e ∙ sym (resume-err fs h e)
  resume-change [] g h f same (Ok (b, q)) = ap (λ (s : Syntax). if at_end q then Ok s else refuse UnopenedGroup q (past q)) (same b)
  resume-change (a ∷ fs) g h f same (Ok (b, q)) = ap (λ (s : Syntax). then_on fs a (close_at config a s q)) (same b)

  merged-item : (g : Gathered) (item : Syntax) (b : Branches) → merged g (add_item item b) ≡ merged (push_item g item) b
  merged-item g item b = ap (λ (xs : List Syntax). alt (syntaxes (g.branches ++ cat (syntaxes xs) ∷ b.others))) (sym (append_assoc g.items (item ∷ []) b.items))

  merged-branch : (g : Gathered) (b : Branches) → merged g (add_branch b) ≡ merged (push_branch g) b
  merged-branch g b =
      ap (λ (xs : List Syntax). alt (syntaxes (g.branches ++ cat (syntaxes xs) ∷ cat (syntaxes b.items) ∷ b.others))) (append-nil g.items)
      ∙ ap (λ (xs : List Syntax). alt (syntaxes xs)) (sym (append_assoc g.branches (cat (syntaxes g.items) ∷ []) (cat (syntaxes b.items) ∷ b.others)))

  merged-none : (g : Gathered) → merged g no_items ≡ gathered_whole g
  merged-none g = ap (λ (xs : List Syntax). alt (syntaxes (g.branches ++ cat (syntaxes xs) ∷ []))) (append-nil g.items)

  -- an item, under the operators after it
  pub resume-item : (fs : List Around) (g : Gathered) (more : Place → Read Branches) (flags : Flags) (s : Syntax) (p : Place) (item : Syntax) (r : Place)
      → all_repetitions config flags s p ≡ Ok (item, r) → resume config fs g (item_then config more flags s p) ≡ resume config fs (push_item g item) (more r)
  resume-item fs g more flags s p item r h =
      ap (λ (reading : Read Syntax). resume config fs g (reading >>= λ (x, q). more q >>= λ (b, t). Ok (add_item x b, t))) h
      ∙ resume-change fs g (push_item g item) (add_item item) (merged-item g item) (more r)

  pub resume-item_err : (fs : List Around) (g : Gathered) (more : Place → Read Branches) (flags : Flags) (s : Syntax) (p : Place) (e : SyntaxError)
      → all_repetitions config flags s p ≡ Err e → resume config fs g (item_then config more flags s p) ≡ Err e
  resume-item_err fs g more flags s p e h =
      ap (λ (reading : Read Syntax). resume config fs g (reading >>= λ (x, q). more q >>= λ (b, t). Ok (add_item x b, t))) h ∙ resume-err fs g e

  -- what is read next, by its token
  pub resume-token : (fs : List Around) (g : Gathered) (flags : Flags) (opened : ℕ) (p : Place) (t : Token) (q : Place) → token config flags p ≡ Ok (t, q)
      → resume config fs g (token_then config (all_branches config) flags opened p) ≡ resume config fs g
      (branches_at config (all_branches config) flags opened p (t, q))
  resume-token fs g flags opened p t q h = ap (λ (r : Read Token). resume config fs g (r >>= branches_at config (all_branches config) flags opened p)) h

  pub resume-token_err : (fs : List Around) (g : Gathered) (flags : Flags) (opened : ℕ) (p : Place) (e : SyntaxError) → token config flags p ≡ Err e
      → resume config fs g (token_then config (all_branches config) flags opened p) ≡ Err e
  resume-token_err fs g flags opened p e h =
      ap (λ (r : Read Token). resume config fs g (r >>= branches_at config (all_branches config) flags opened p)) h ∙ resume-err fs g e

  pub resume-bar : (fs : List Around) (g : Gathered) (flags : Flags) (opened : ℕ) (q : Place)
      → resume config fs g (all_branches config flags opened q >>= λ (b, r). Ok (add_branch b, r)) ≡ resume config fs (push_branch g)
      (all_branches config flags opened q)
  resume-bar fs g flags opened q = resume-change fs g (push_branch g) add_branch (merged-branch g) (all_branches config flags opened q)

  by_item : (fs : List Around) (g : Gathered) (flags : Flags) (item : Read Syntax)
      → resume config fs g (item >>= λ (x, r). all_branches config flags (length fs) r >>= λ (b, t). Ok (add_item x b, t))
      ≡ (item >>= λ (x, r). resume config fs (push_item g x) (all_branches config flags (length fs) r))
  by_item fs g flags (Ok (x, r)) = resume-change fs g (push_item g x) (add_item x) (merged-item g x) (all_branches config flags (length fs) r)
  by_item fs g flags (Err e) = resume-err fs g e

  by_group : (fs : List Around) (g : Gathered) (flags : Flags) (closed : Read Syntax)
      → resume config fs g (closed >>= λ (item, after). item_then config (all_branches config flags (length fs)) flags item after)
      ≡ (closed >>= λ (s, after). all_repetitions config flags s after >>= λ (x, r). resume config fs (push_item g x) (all_branches config flags (length fs) r))
  by_group fs g flags (Ok (s, after)) = by_item fs g flags (all_repetitions config flags s after)
  by_group fs g flags (Err e) = resume-err fs g e

  -- the group that opens at p
  opened_at : Gathered → Flags → Place → GroupKind → Around
  opened_at g flags p kind = record { gathered = g; start = p.at; end = (past p).at; kind = kind; flags = flags }

  by_reading : (fs : List Around) (g : Gathered) (flags : Flags) (p : Place) (kind : GroupKind) (reading : Read Branches)
      → resume config fs g (reading >>= λ (body, r). close_group config kind p (whole body) r >>= λ (item, after). item_then config
      (all_branches config flags (length fs)) flags item after) ≡ resume config (opened_at g flags p kind ∷ fs) nothing reading
  unfolding resume opened_at
  by_reading fs g flags p kind (Ok (b, r)) = by_group fs g flags (close_group config kind p (whole b) r)
  by_reading fs g flags p kind (Err e) = resume-err fs g e

  pub resume-too_many : (fs : List Around) (g : Gathered) (flags : Flags) (opened : ℕ) (p : Place) (kind : GroupKind) (inside : Flags) (q : Place)
      → resume config fs g (group_then config (all_branches config) flags opened p kind inside q true)
      ≡ Err (record { kind = NestLimit; start = p.at; end = q.at })
  resume-too_many fs g flags opened p kind inside q = resume-err fs g _

  pub resume-pushed : (fs stack : List Around) (a : Around) (g h : Gathered) (flags : Flags) (p : Place) (kind : GroupKind) (inside : Flags) (q : Place)
      → stack ≡ a ∷ fs → h ≡ nothing → a ≡ record { gathered = g; start = p.at; end = (past p).at; kind = kind; flags = flags }
      → nat_lt (limit_of config) (length fs + 1) ≡ false →
      resume config stack h (all_branches config inside (length stack) q) ≡ resume config fs g
      (group_then config (all_branches config) flags (length fs) p kind inside q (nat_lt (limit_of config) (length fs + 1)))
  unfolding opened_at
  resume-pushed fs stack a g h flags p kind inside q pushed empty is within =
      rw (pushed, empty, within) (ap (λ (n : ℕ). resume config (a ∷ fs) nothing (all_branches config inside n q)) (sym (add-one (length fs)))
      ∙ ap (λ (x : Around). resume config (x ∷ fs) nothing (all_branches config inside (length fs + 1) q)) is
      ∙ sym (by_reading fs g flags p kind (all_branches config inside (length fs + 1) q)))

  -- a group that closes
  closing : (fs : List Around) (f : Around) (g : Gathered) (p : Place)
      → resume config (f ∷ fs) g (Ok (no_items, p)) ≡ then_on fs f (close_at config f (gathered_whole g) p)
  unfolding resume then_on
  closing fs f g p = ap (λ (s : Syntax). then_on fs f (close_at config f s p)) (merged-none g)

  closed_if : (f : Around) (g : Gathered) (p : Place) → Bool → Read Syntax
  closed_if f g p b =
      if b then Err (record { kind = UnclosedGroup; start = f.start; end = f.end }) else within_limit config (group f.kind (gathered_whole g)) p (past p)

  within_if : (f : Around) (g : Gathered) (p : Place) → Bool → Read Syntax
  within_if f g p b = if b then refuse NestLimit p (past p) else Ok (group f.kind (gathered_whole g), past p)

  pub resume-unclosed : (fs : List Around) (f : Around) (g : Gathered) (p : Place) → at_end p ≡ true
      → resume config (f ∷ fs) g (Ok (no_items, p)) ≡ Err (record { kind = UnclosedGroup; start = f.start; end = f.end })
  unfolding then_on closed_if
  resume-unclosed fs f g p h = closing fs f g p ∙ ap (λ (b : Bool). then_on fs f (closed_if f g p b)) h

  pub resume-too_deep : (fs : List Around) (f : Around) (g : Gathered) (p : Place) → at_end p ≡ false
      → nat_lt (limit_of config) (depth (group f.kind (gathered_whole g))) ≡ true → resume config (f ∷ fs) g (Ok (no_items, p)) ≡ refuse NestLimit p (past p)
  unfolding then_on closed_if within_if
  resume-too_deep fs f g p h deep =
      closing fs f g p ∙ ap (λ (b : Bool). then_on fs f (closed_if f g p b)) h ∙ ap (λ (b : Bool). then_on fs f (within_if f g p b)) deep

  pub resume-group : (fs : List Around) (f : Around) (g : Gathered) (p : Place) → at_end p ≡ false
      → nat_lt (limit_of config) (depth (group f.kind (gathered_whole g))) ≡ false →
      resume config (f ∷ fs) g (Ok (no_items, p)) ≡ resume config fs f.gathered
      (item_then config (all_branches config f.flags (length fs)) f.flags (group f.kind (gathered_whole g)) (past p))
  unfolding then_on closed_if within_if
  resume-group fs f g p h within =
      closing fs f g p ∙ ap (λ (b : Bool). then_on fs f (closed_if f g p b)) h ∙ ap (λ (b : Bool). then_on fs f (within_if f g p b)) within
      ∙ sym (by_item fs f.gathered f.flags (all_repetitions config f.flags (group f.kind (gathered_whole g)) (past p)))

  pub resume-finished : (g : Gathered) (p : Place) → at_end p ≡ true → resume config [] g (Ok (no_items, p)) ≡ Ok (gathered_whole g)
  unfolding resume
  resume-finished g p h = ap (λ (b : Bool). if b then Ok (merged g no_items) else refuse UnopenedGroup p (past p)) h ∙ ap (λ (s : Syntax). Ok s) (merged-none g)

  pub resume-unopened : (g : Gathered) (p : Place) → at_end p ≡ false → resume config [] g (Ok (no_items, p)) ≡ refuse UnopenedGroup p (past p)
  unfolding resume
  resume-unopened g p h = ap (λ (b : Bool). if b then Ok (merged g no_items) else refuse UnopenedGroup p (past p)) h

  from_start : (reading : Read Branches) → resume config [] nothing reading ≡ (reading >>= to_end config)
  unfolding resume
  from_start (Ok (b, q)) = refl
  from_start (Err e) = refl

  pub resume-start : (fs : List Around) (g : Gathered) (flags : Flags) (p : Place) (text : List ℕ) → fs ≡ [] → g ≡ nothing → flags ≡ flags_of config
      → p ≡ start_of text → resume config fs g (all_branches config flags (length fs) p) ≡ read config text
  unfolding read
  resume-start fs g flags p text none empty same start =
      rw (none, empty, same, start) (from_start (all_branches config (flags_of config) 0 (start_of text)))

  -- at the end
  pub resume-end : (fs : List Around) (g : Gathered) (flags : Flags) (opened : ℕ) (p : Place) → at_end p ≡ true
      → resume config fs g (all_branches config flags opened p) ≡ resume config fs g (Ok (no_items, p))
  resume-end fs g flags opened p h =
      ap (resume config fs g) (all_branches-step config flags opened p ∙ ap (token_then config (all_branches config) flags opened) (skip-end flags p h))
      ∙ resume-token fs g flags opened p End p (token-end config flags p h)
