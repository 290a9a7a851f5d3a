-- What a method does with a target.
use Rattle.std.specs.Prelude.{ℕ, List, codes, Bool, Option, Some, None, Result, Ok, Err, if◌then◌else◌}
use Rattle.std.specs.Str.{bytes_eq}
use Rattle.vault_core_model.specs.declared.command.Command.TheVariants as command
use Rattle.vault_http_target.specs.declared.target.Object.{Object}
use Rattle.vault_http_target.specs.declared.target.Target.{Target}
use Rattle.vault_http_target.specs.declared.target.Target.TheVariants as target
use Rattle.vault_http_request.specs.declared.operation.Operation.{Operation}
use Rattle.vault_http_request.specs.declared.operation.Operation.TheVariants as operation
use Rattle.vault_http_request.specs.declared.operation.Resource.{Resource}
use Rattle.vault_http_request.specs.declared.operation.Resource.TheVariants as resource

abbrev pub is_put : List ℕ → Bool
is_put method = bytes_eq method (codes "PUT")

abbrev pub is_get : List ℕ → Bool
is_get method = bytes_eq method (codes "GET")

abbrev pub is_head : List ℕ → Bool
is_head method = bytes_eq method (codes "HEAD")

abbrev pub is_delete : List ℕ → Bool
is_delete method = bytes_eq method (codes "DELETE")

abbrev pub put : Object → Operation
put o = operation.Put o.bucket o.key

abbrev pub get : Object → Operation
get o = operation.Ready (command.Get (record { bucket = o.bucket; key = o.key; id = o.id }))

abbrev pub head : Object → Operation
head o = operation.Ready (command.Head (record { bucket = o.bucket; key = o.key; id = o.id }))

-- with an id that entry is removed; without one a delete marker is put on top
abbrev pub removed : List ℕ → List ℕ → Option ℕ → Operation
removed bucket key (Some id) = operation.DeleteVersion bucket key id
removed bucket key None = operation.Ready (command.Delete (record { bucket = bucket; key = key }))

abbrev pub delete : Object → Operation
delete o = removed o.bucket o.key o.id

abbrev pub get_retention : Object → Operation
get_retention o = operation.Ready (command.GetRetention (record { bucket = o.bucket; key = o.key; id = o.id }))

abbrev pub get_hold : Object → Operation
get_hold o = operation.Ready (command.GetHold (record { bucket = o.bucket; key = o.key; id = o.id }))

abbrev pub on_object : List ℕ → Object → Result Operation Resource
on_object method o =
    if is_put method then Ok (put o)
    else (if is_get method then Ok (get o)
    else (if is_head method then Ok (head o) else (if is_delete method then Ok (delete o) else Err resource.Object)))

abbrev pub on_retention : List ℕ → Object → Result Operation Resource
on_retention method o =
    if is_put method then Ok (operation.SetRetention o) else (if is_get method then Ok (get_retention o) else Err resource.Setting)

abbrev pub on_hold : List ℕ → Object → Result Operation Resource
on_hold method o =
    if is_put method then Ok (operation.SetHold o) else (if is_get method then Ok (get_hold o) else Err resource.Setting)

abbrev pub on_default : List ℕ → List ℕ → Result Operation Resource
on_default method bucket =
    if is_put method then Ok (operation.SetDefault bucket)
    else (if is_get method then Ok (operation.Ready (command.GetDefault (record { bucket = bucket }))) else Err resource.Setting)

abbrev pub on_rules : List ℕ → List ℕ → Result Operation Resource
on_rules method bucket =
    if is_put method then Ok (operation.SetRules bucket)
    else (if is_get method then Ok (operation.Ready (command.GetRules (record { bucket = bucket })))
    else (if is_delete method then Ok (operation.Ready (command.DropRules (record { bucket = bucket }))) else Err resource.Lifecycle))

-- where the target hasn't that method, its kind
abbrev pub operation_of : List ℕ → Target → Result Operation Resource
operation_of method (target.Object o) = on_object method o
operation_of method (target.Retention o) = on_retention method o
operation_of method (target.LegalHold o) = on_hold method o
operation_of method (target.Bucket bucket) = Err resource.Bucket
operation_of method (target.Versions listing) =
    if is_get method then Ok (operation.Ready (command.ListVersions listing)) else Err resource.Versions
operation_of method (target.ObjectLock bucket) = on_default method bucket
operation_of method (target.Lifecycle bucket) = on_rules method bucket
