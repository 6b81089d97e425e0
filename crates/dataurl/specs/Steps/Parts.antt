-- What the parts of a run do.
use Rattle.std.specs.Io.KnownBytes.{Appends}
use Rattle.std.specs.Prelude.{[], ◌++◌, ◌∷◌, ◌≡◌, Err, List, Ok, Option, Result, option_map, ℕ}
use Rattle.data_url.specs.DataUrl.{IsAcceptable, IsUrlOf, fragment_text, url_tail}
use Rattle.data_url.specs.Fetch.{NoComma as no_comma, NoScheme, staged}
use Rattle.data_url.specs.Url.{without_tabs_and_newlines, encoded_fragment, fragment, in_fragment_set, percent_encoding}
use Rattle.data_url.specs.declared.DataUrl.{DataUrl}
use Rattle.data_url.specs.declared.fragment.FragmentIdentifier.{FragmentIdentifier}
use Rattle.dataurl.specs.Output.{End}
use Rattle.dataurl.specs.Runs.{IsProperPrefix}
use Rattle.dataurl.specs.declared.fault.Fault.TheVariants.{Memory, NoComma, NotADataUrl, Write}
use Rattle.dataurl.specs.declared.fault.Fault.{Fault}

-- true of every result
abbrev pub AnyAnswer : {A : Type 0} → A → Type 0
AnyAnswer x = Unit {0}

-- the URL of a text, or why the text is not a data: URL
pub data IsUrlFor (x : List ℕ) : Result DataUrl Fault → Type 0 where
  url_is : (url : DataUrl) → IsUrlOf x url → IsUrlFor x (Ok url)
  no_scheme_is : staged x ≡ NoScheme → IsUrlFor x (Err NotADataUrl)
  no_comma_is : staged x ≡ no_comma → IsUrlFor x (Err NoComma)
  no_url_memory : IsAcceptable (staged x) → IsUrlFor x (Err Memory)

-- all of an output was written; or a write failed, after a proper prefix of it; or allocation failed,
-- and nothing was written
pub data IsWrittenOf (IsOutput : List ℕ → End → Type 0) : List ℕ → End → Type 0 where
  whole_output : {written : List ℕ} {end : End} → IsOutput written end
      → IsWrittenOf IsOutput written end
  cut_output : {written whole : List ℕ} {end : End} → IsOutput whole end
      → IsProperPrefix written whole
      → IsWrittenOf IsOutput written (Err Write)
  no_output : IsWrittenOf IsOutput [] (Err Memory)

-- what a writer holds after it was given an output
pub record WritesOf (IsOutput : List ℕ → End → Type 0) (held now : Option (List ℕ)) (r : End)
    : Type 0 where
  pub written : List ℕ
  pub appended : Appends held now written
  pub is_written : IsWrittenOf IsOutput written r

-- the output is these bytes, without an error
pub data IsExactly (bytes : List ℕ) : List ℕ → End → Type 0 where
  exactly : IsExactly bytes bytes (Ok tt)

-- the encoded fragment of a URL, if it has one
abbrev pub url_fragment : DataUrl → Option (List ℕ)
url_fragment url = option_map (percent_encoding in_fragment_set)
    (fragment (without_tabs_and_newlines (url_tail url)))

-- the encoded fragment and a line feed
abbrev pub fragment_line : FragmentIdentifier → List ℕ
fragment_line found = encoded_fragment (fragment_text found) ++ 10 ∷ []
