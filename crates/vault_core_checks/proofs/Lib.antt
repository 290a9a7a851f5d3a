mod Current
